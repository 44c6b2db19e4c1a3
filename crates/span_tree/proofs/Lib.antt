mod Rows
pub mod Grown
pub mod Unique
pub mod Spans
pub mod Counts
pub mod Laws
pub mod Marks
pub mod Tables
