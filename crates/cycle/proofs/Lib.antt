pub mod Updates
pub mod Pending
pub mod Paths
pub mod Moves
pub mod Advance
pub mod Ended
pub mod Answered
pub mod Trails
