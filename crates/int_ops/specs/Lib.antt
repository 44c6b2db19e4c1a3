pub mod Apply
pub mod Codes
pub mod Common
pub mod Conversion
pub mod Ranges
pub mod Widths
