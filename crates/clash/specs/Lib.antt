pub mod Clashes
pub mod Numbers
