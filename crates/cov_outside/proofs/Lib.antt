pub mod Causes
mod ChangeLaws
mod FileLaws
mod Files
mod ReadSoFar
mod Whole
