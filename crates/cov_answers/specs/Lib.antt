pub mod Answers
pub mod FileFaults
