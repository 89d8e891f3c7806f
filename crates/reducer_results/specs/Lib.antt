pub mod Reductions
pub mod Answered
