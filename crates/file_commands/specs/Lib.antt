pub mod Merge
pub mod Tallied
pub mod Report
pub mod Laws
