pub mod Rules
pub mod Labels
pub mod Masks
pub mod RowLaws
pub mod Sets
pub mod Start
