pub mod Posed
pub mod Flat
pub mod Decided
pub mod Loads
pub mod Numbers
