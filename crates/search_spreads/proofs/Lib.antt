pub mod Known
pub mod Limits
pub mod Spreads
pub mod Clues
