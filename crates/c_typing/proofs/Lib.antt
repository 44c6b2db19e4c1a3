pub mod Cells
pub mod DeclSound
pub mod ExprSound
mod FaultRows
pub mod FileSound
pub mod FindLaws
mod FineRows
pub mod GlobalLaws
pub mod HeadLaws
pub mod LevelLaws
pub mod MainLaws
pub mod NameLaws
pub mod SourceSound
pub mod StmtSound
mod Trees
pub mod TypeLaws
mod TypedRows
