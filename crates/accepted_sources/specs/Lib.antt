pub mod CSources
pub mod Laws
