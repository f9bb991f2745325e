pub mod Strengths
pub mod Levels
