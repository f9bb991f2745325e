pub mod Pairs
pub mod Joints
pub mod Tries
