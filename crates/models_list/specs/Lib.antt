pub mod Masks
pub mod Gathered
pub mod Listed
pub mod Answer
