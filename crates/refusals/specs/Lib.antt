pub mod Reason
pub mod Fault
pub mod Refusal
