pub mod Arriving
pub mod Circulation
pub mod Spanning
pub mod Tables
pub mod Touching
pub mod Tree
