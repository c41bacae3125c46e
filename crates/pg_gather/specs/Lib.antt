pub mod Partials
pub mod Merging
pub mod Shares
pub mod Desks
