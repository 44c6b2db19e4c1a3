pub mod Words
pub mod Operators
pub mod Forms
pub mod Rules
pub mod Grammar
pub mod Derivations
pub mod Reads
pub mod Lists
