pub mod Digits
pub mod Fields
pub mod Places
pub mod Packing
pub mod Writing
