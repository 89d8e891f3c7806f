pub mod States
pub mod Keys
pub mod Subsumers
