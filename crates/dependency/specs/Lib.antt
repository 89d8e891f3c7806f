pub mod Chains
pub mod Decide
pub mod Ends
