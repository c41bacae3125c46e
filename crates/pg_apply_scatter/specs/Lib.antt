pub mod Applying
pub mod Pushing
pub mod Sending
pub mod Desks
pub mod Places
pub mod Delivering
pub mod Halves
pub mod Caches
