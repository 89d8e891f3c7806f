pub mod Lists
pub mod Search
pub mod Bits
pub mod Subsets
pub mod Models
pub mod Failing
