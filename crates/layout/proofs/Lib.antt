pub mod Places
pub mod Slots
