pub mod Passing
pub mod Circulating
pub mod RunFunctions
pub mod Adding
pub mod WordShapes
pub mod Tallying
pub mod Reporting
mod Rows
