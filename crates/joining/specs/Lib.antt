pub mod Classes
pub mod Parting
pub mod Machines
pub mod Rewriting
pub mod Numbering
pub mod Joining
pub mod Record
