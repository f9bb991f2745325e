pub mod Trying
pub mod Trials
