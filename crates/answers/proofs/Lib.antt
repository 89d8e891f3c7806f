pub mod Numbers
pub mod Halves
pub mod Asked
pub mod Slices
