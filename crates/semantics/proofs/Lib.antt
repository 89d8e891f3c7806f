pub mod Tests
pub mod Ascending
pub mod Models
pub mod Decide
