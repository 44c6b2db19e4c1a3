pub mod Nests
pub mod Sources
