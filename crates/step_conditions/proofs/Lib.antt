pub mod Heads
pub mod Tests
pub mod After
