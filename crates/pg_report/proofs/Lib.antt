pub mod Again
pub mod Ends
pub mod Entries
pub mod Feeds
pub mod Putting
pub mod Sending
pub mod Takes
pub mod Vertices
