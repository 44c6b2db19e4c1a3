pub mod Nests
pub mod Sides
