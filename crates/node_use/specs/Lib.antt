pub mod Between
pub mod Pairs
