pub mod ListFacts
pub mod SimplePaths
pub mod AllPaths
pub mod Counting
pub mod Budget
pub mod StoreLaws
pub mod Fits
pub mod TrailLaws
pub mod WaysLaws
pub mod Growing
pub mod SearchLaws
pub mod PrimeLaws
mod Rows
