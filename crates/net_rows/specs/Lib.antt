pub mod UnitNets
pub mod WellMade
