pub mod Held
pub mod Shares
pub mod Copies
pub mod Looks
