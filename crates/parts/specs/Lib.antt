pub mod Parts
pub mod Taking
pub mod Listed
pub mod Stack
