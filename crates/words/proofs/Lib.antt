pub mod Vocabulary
pub mod Any
pub mod WordLaws
pub mod Members
