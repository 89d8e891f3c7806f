pub mod Opens
pub mod Keeps
