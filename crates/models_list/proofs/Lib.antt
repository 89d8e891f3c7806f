pub mod Filling
pub mod Gathering
pub mod Words
pub mod Finding
pub mod Answered
