pub mod UnderWay
pub mod Masks
pub mod PathTests
pub mod Chunks
pub mod Tables
pub mod Laws
pub mod NetWalks
