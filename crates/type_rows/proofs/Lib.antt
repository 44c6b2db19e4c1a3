pub mod TypedTextLaws
