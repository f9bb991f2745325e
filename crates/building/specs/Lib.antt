pub mod Named
pub mod OneRecord
pub mod Build
