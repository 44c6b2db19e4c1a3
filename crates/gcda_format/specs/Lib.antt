pub mod Data
pub mod Spelling
pub mod Reading
