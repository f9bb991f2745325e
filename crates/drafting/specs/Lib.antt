pub mod Draft
pub mod Coded
pub mod Joined
