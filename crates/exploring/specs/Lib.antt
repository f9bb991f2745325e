pub mod Explore
pub mod Filling
