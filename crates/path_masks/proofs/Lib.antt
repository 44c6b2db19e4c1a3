pub mod BitLaws
pub mod WalkBits
pub mod WordLaws
pub mod MaskLaws
pub mod FitLaws
pub mod TestLaws
pub mod ChunkLaws
pub mod TableLaws
pub mod NumberLaws
pub mod NetWalkLaws
mod Worked
mod WorkedWalks
