pub mod Masks
pub mod UpTo
pub mod Failed
