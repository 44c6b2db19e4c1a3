pub mod LoweredText
