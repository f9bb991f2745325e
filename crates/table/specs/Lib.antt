pub mod Entry
pub mod Succ
pub mod Rows
pub mod Whole
pub mod Stepping
