pub mod JoinedRule
pub mod Joining
pub mod Numbers
