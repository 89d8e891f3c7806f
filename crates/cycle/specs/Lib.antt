pub mod Search
pub mod Answer
