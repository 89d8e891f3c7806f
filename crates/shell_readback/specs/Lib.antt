pub mod Readback
pub mod Laid
pub mod Beside
