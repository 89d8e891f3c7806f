pub mod Room
pub mod Taken
