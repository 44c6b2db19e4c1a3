pub mod Changes
pub mod FileCalls
pub mod Memory
pub mod Outside
pub mod Stores
