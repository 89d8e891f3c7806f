pub mod Searches
pub mod Excluded
