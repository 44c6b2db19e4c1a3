pub mod Circulation
pub mod Solving
