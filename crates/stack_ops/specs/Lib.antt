pub mod Code
pub mod Effect
pub mod Groups
pub mod Shapes
pub mod Stack
pub mod Steps
