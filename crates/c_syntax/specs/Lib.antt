pub mod Syntax
pub mod Laws
