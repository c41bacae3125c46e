pub mod Step
pub mod Reached
