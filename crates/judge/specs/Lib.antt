pub mod Judge
pub mod Numbers
