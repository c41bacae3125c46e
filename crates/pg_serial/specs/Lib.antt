pub mod Sending
pub mod Neighbours
pub mod Journals
pub mod Serial
pub mod Bits
pub mod Queue
pub mod Distinct
