pub mod Searching
pub mod Gaps
pub mod Waking
