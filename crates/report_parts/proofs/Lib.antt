pub mod LinesLaws
pub mod CountLaws
pub mod NumberLaws
pub mod ReportLaws
pub mod PassageLaws
mod Rows
