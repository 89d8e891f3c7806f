mod Filled
mod Outcome
