pub mod ArcCounts
pub mod ArcWalks
mod CountedRows
pub mod CoveredRuns
pub mod FewNumbers
pub mod Gains
pub mod PathWords
pub mod TableRows
pub mod WordLaws
