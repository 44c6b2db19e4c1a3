pub mod Items
pub mod Loop
pub mod Steady
pub mod Spelled
pub mod Whole
