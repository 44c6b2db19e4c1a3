pub mod Ran
pub mod Run
pub mod Shown
pub mod Laws
