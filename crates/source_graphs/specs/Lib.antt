pub mod SourceGraphs
pub mod FaultWords
pub mod Accepted
