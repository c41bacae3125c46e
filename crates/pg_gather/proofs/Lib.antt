pub mod Reading
pub mod Rows
pub mod Merging
pub mod Sharing
pub mod Parting
pub mod Deskwork
pub mod Sweeping
