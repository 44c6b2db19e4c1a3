mod FileRows
mod ReadRows
pub mod WriteLaws
pub mod Outcomes
pub mod ItemLaws
pub mod OpLaws
pub mod SequenceLaws
pub mod FunctionLaws
pub mod FileLaws
pub mod RowLaws
pub mod AgainLaws
pub mod AgainParts
pub mod AgainFile
pub mod TakeLaws
pub mod PlaceLaws
pub mod Chains
pub mod LoopLaws
