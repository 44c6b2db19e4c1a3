pub mod ListLaws
pub mod MadeLaws
pub mod OperandLaws
pub mod SideLaws
pub mod ChainLaws
pub mod TailLaws
pub mod InnerLaws
pub mod Exits
