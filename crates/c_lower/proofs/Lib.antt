pub mod AddedLines
pub mod ConditionLaws
pub mod EndLaws
pub mod MadeLaws
mod ExpressionRuns
mod GraphRows
pub mod NameLaws
pub mod NameRanges
pub mod NumberLaws
pub mod OrderLaws
pub mod PartLaws
pub mod PutsLaws
pub mod StatementNames
pub mod ViewLaws
mod StatementRuns
mod TrapRuns
mod TypeRuns
mod WalkRows
pub mod ZeroLaws
