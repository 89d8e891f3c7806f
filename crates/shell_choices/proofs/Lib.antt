pub mod Worked
pub mod Members
pub mod Below
pub mod Fresh
pub mod Exact
