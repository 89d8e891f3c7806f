pub mod Smallest
pub mod Tries
