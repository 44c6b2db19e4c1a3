pub mod Paths
pub mod Lister
pub mod Store
pub mod Ways
pub mod Trail
pub mod Search
pub mod Listings
pub mod Laws
