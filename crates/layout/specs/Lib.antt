pub mod Shape
pub mod Slots
