pub mod Classes
pub mod Differences
pub mod Multiples
