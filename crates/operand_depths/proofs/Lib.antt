pub mod Tables
pub mod Steadily
pub mod Statements
pub mod Blocks
pub mod Pruned
