pub mod Spans
pub mod Named
pub mod Tokens
pub mod InUse
