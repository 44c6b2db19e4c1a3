pub mod Marks
pub mod Notes
pub mod Spelling
pub mod Layout
pub mod Reading
pub mod Values
pub mod Exact
