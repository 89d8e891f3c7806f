pub mod Stable
pub mod Translation
