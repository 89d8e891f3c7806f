pub mod Lists
pub mod Leaves
