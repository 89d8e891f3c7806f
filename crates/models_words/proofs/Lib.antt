pub mod Sets
pub mod Listed
pub mod Sperner
pub mod Antichains
pub mod Examples
