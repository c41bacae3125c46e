pub mod Same
pub mod Putting
pub mod Legal
pub mod Made
pub mod Course
pub mod Freeing
pub mod Retired
pub mod Seated
