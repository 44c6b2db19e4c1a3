pub mod Shown
pub mod Lines
pub mod Functions
pub mod ArcTests
pub mod CountSteps
pub mod Summary
pub mod Report
pub mod Laws
