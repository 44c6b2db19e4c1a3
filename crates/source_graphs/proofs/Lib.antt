mod GraphLaws
pub mod Acceptance
