pub mod Ascending
pub mod Graph
pub mod GraphView
pub mod Laws
pub mod Nets
pub mod WalkRun
