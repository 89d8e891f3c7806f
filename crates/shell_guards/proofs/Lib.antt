pub mod Within
pub mod Steps
pub mod Guards
pub mod Sound
pub mod Start
pub mod Contexts
pub mod Unguarded
pub mod Ninth
