pub mod Machine
pub mod Complement
pub mod Rule
pub mod Decode
