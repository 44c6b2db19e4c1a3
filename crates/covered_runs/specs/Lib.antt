pub mod CallWords
pub mod CoveredWalks
pub mod Laws
