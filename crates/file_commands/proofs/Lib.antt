pub mod UnrunLaws
pub mod StepLaws
pub mod StopLaws
pub mod MergeLaws
pub mod ReportLaws
pub mod TallyOnce
pub mod Complete
mod Rows
