pub mod Entries
pub mod Listing
pub mod Minimal
pub mod Answered
