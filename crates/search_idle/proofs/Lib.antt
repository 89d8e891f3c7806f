pub mod Stays
pub mod Memory
pub mod Forgets
