pub mod Drafts
pub mod Sentences
pub mod Kept
