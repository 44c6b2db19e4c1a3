pub mod CountText
