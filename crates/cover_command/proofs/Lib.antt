pub mod RunLaws
pub mod StopLaws
