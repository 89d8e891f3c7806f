pub mod Applies
pub mod Cases
