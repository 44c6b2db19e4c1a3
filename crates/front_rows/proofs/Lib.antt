pub mod TextTreeLaws
