pub mod TextTree
