pub mod Sweeps
pub mod Back
pub mod Settling
