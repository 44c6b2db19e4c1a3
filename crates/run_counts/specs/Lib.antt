pub mod Texts
pub mod Counts
pub mod Runs
pub mod Laws
