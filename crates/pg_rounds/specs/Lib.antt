pub mod Carries
pub mod Drafts
pub mod Gathers
pub mod Visits
pub mod Executed
