pub mod Atoms
pub mod Records
pub mod Sets
pub mod Upto
pub mod Weights
pub mod Ready
