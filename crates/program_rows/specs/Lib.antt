pub mod RunText
