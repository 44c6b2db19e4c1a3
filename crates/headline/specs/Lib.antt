pub mod SourceRuns
pub mod CoverText
pub mod Laws
