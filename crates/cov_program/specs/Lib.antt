pub mod Outside
pub mod Within
pub mod Commands
pub mod Meant
pub mod Performs
