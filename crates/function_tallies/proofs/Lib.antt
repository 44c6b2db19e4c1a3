pub mod Bounds
pub mod Shapes
mod Rows
