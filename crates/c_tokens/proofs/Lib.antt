pub mod CharacterLaws
pub mod ItemLaws
pub mod LiteralLaws
pub mod MarkLaws
pub mod ReadingLaws
mod Rows
pub mod ScanLaws
pub mod SpanLaws
pub mod TextLaws
pub mod NameLaws
