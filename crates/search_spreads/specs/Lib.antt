pub mod Spreads
pub mod Keys
