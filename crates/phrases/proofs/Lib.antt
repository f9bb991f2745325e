pub mod Taking
pub mod Looking
pub mod Atoms
pub mod Declaring
