pub mod Numbers
pub mod Syntax
pub mod Values
pub mod Reading
