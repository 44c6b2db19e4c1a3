pub mod WholeWalks
pub mod WalkData
pub mod WalkTallies
pub mod Laws
