pub mod Counts
pub mod Marking
pub mod Numbers
pub mod Runs
pub mod Size
pub mod Tidy
