pub mod Shares
pub mod PageRank
pub mod PageRankLaws
pub mod RankEquation
