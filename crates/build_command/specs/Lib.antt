pub mod Compiled
pub mod Build
