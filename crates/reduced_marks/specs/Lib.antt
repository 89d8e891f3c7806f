pub mod Allowed
pub mod Spans
