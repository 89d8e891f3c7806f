pub mod Shown
pub mod Signs
