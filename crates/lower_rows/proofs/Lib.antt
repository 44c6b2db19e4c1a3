pub mod LoweredTextLaws
