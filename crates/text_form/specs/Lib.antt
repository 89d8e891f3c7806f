pub mod Digits
pub mod Numerals
pub mod Render
pub mod Lists
pub mod Reader
pub mod Writer
pub mod Stored
