pub mod Room
pub mod Decoding
pub mod Building
pub mod Trees
