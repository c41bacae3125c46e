pub mod Ends
pub mod Folds
pub mod Gathering
pub mod Stepping
pub mod Resting
pub mod Keeping
