pub mod Transitions
pub mod Bits
