pub mod DrawingLemmas
pub mod Loops
