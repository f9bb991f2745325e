pub mod Deciding
pub mod Shown
pub mod Verdicts
pub mod InNumbers
