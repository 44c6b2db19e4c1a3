pub mod OffLaws
