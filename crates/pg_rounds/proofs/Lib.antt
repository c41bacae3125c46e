pub mod Carrying
pub mod Drafting
pub mod Gathering
pub mod Visiting
pub mod Steps
pub mod Sweeping
pub mod Executing
