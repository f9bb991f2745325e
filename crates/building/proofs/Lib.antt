pub mod Marks
pub mod OneRecord
pub mod Nexts
