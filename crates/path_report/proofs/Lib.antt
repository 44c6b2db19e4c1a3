pub mod TallyLaws
pub mod ShownLaws
mod Rows
