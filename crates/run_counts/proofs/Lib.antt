pub mod FewLaws
pub mod DataLaws
pub mod RunShapes
pub mod MergeLaws
pub mod RunLaws
mod Rows
