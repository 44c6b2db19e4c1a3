pub mod Finished
pub mod Wordless
