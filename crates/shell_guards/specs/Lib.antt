pub mod Guards
pub mod Contexts
