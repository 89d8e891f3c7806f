pub mod Counting
pub mod Back
