pub mod Errors
pub mod Events
pub mod Reading
pub mod Texts
