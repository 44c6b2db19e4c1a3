pub mod ArgLaws
pub mod CheckLaws
pub mod ListLaws
pub mod NameLaws
