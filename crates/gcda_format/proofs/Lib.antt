pub mod Laws
pub mod Parts
mod Rows
