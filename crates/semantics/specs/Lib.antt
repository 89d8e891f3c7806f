pub mod Lists
pub mod Programs
pub mod Decide
