pub mod Begins
pub mod Runs
pub mod Makes
pub mod Answers
