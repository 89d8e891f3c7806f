pub mod Marks
pub mod Spans
