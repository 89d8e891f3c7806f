pub mod Forgets
