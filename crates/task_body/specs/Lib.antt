pub mod Body
pub mod Hold
pub mod Tally
