pub mod TypedText
