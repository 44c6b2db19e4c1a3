pub mod Stands
pub mod Stops
pub mod Behind
pub mod Told
