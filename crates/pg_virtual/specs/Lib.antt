pub mod Deeds
pub mod Interleaved
pub mod Stretches
