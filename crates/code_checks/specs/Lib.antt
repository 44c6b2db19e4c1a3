pub mod Seen
pub mod DepthTable
pub mod Rows
