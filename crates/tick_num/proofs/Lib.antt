pub mod Euclid
pub mod ClassLaw
pub mod Floor
pub mod Multiples
pub mod Cycles
pub mod Pigeons
pub mod Rounds
pub mod Layers
