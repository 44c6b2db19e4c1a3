pub mod Spelling
pub mod RowLaws
