pub mod Parts
pub mod Spelled
pub mod Marks
pub mod Reading
pub mod Scopes
