pub mod CoveredRendering
pub mod ListedRows
pub mod MadeShapes
pub mod ShortNames
pub mod WritableNotes
