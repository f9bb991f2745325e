pub mod Clash
pub mod Joins
pub mod Answer
