pub mod Shapes
pub mod UnitNotes
pub mod RendersCovered
