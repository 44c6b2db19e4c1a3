mod RunRows
mod CheckRows
pub mod StepShapes
pub mod PlainSteps
pub mod NeverStuck
pub mod Ends
pub mod CheckLaws
pub mod CountLaws
pub mod CodeLaws
