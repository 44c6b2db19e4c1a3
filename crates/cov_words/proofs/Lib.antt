pub mod NumberLaws
pub mod SyntaxLaws
pub mod ValueLaws
pub mod ReadingLaws
