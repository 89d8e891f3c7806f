pub mod Flags
pub mod Numbers
