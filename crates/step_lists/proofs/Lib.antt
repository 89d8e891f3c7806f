pub mod Walks
pub mod Before
