pub mod Questions
pub mod Verdicts
pub mod Remembered
