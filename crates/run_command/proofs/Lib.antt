pub mod KeepLaws
pub mod RunLaws
pub mod EndLaws
pub mod FirstLaws
mod Rows
