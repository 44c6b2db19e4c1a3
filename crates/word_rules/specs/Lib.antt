pub mod WordRules
pub mod Laws
