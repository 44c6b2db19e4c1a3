pub mod Meant
pub mod Closing
pub mod Closed
