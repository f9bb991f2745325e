pub mod Whole
pub mod Outcomes
pub mod InNumbers
