pub mod WithinLaws
pub mod NameLaws
pub mod ReadLaws
pub mod MeantLaws
