pub mod Bools
pub mod Marks
pub mod Sets
