pub mod Stamps
pub mod Fits
