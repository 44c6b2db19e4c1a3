pub mod LineLaws
pub mod WalkLaws
mod WorkedGraphs
