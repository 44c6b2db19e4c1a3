mod ExpressionRows
pub mod ExpressionSources
mod MeaningRows
pub mod Sources
pub mod SpareTurns
mod StatementRows
pub mod StatementSources
mod TrapRows
pub mod TrapSources
mod TypeRows
pub mod TypeSources
