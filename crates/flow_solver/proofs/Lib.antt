pub mod Surplus
pub mod Links
pub mod Spreading
pub mod Gathering
pub mod Sizes
pub mod Solutions
pub mod Steps
mod Rows
