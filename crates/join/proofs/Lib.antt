pub mod JoinedRule
pub mod Words
pub mod Joining
pub mod InNumbers
