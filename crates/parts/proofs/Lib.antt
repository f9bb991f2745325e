pub mod Lists
pub mod PartLaws
pub mod Taking
pub mod Stacks
pub mod Walking
pub mod Figures
