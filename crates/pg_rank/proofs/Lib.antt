pub mod Bringing
pub mod Ranking
