pub mod Changes
pub mod Parts
