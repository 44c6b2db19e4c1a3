pub mod Cover
pub mod Gains
