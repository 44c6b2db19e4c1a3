pub mod Falls
pub mod Limits
pub mod Net
pub mod Reach
pub mod Walks
