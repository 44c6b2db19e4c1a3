pub mod TableLaws
pub mod DepthLaws
pub mod PassLaws
pub mod FieldLaws
