pub mod Deltas
pub mod Cell
pub mod Truth
pub mod Leading
pub mod Least
pub mod LeastLaws
