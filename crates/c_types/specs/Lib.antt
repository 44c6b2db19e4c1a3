pub mod Functions
pub mod SourceChecks
pub mod StmtChecks
