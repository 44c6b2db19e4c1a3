mod ListLaws
pub mod NetLaws
mod ReachLaws
mod Rows
pub mod WalkLaws
