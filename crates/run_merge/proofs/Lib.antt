pub mod OrderLaws
mod Rows
pub mod FaultLaws
