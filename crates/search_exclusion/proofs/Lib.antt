pub mod Targets
pub mod Tries
