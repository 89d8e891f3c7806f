pub mod State
pub mod States
