pub mod Sweeps
pub mod Gaps
