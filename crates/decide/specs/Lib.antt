pub mod Decide
pub mod Numbers
