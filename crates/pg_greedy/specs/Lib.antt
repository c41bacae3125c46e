pub mod Greedy
pub mod Loaders
pub mod Batches
pub mod Drafts
pub mod Examples
