pub mod Names
pub mod Steps
pub mod Files
pub mod Merged
pub mod Puts
