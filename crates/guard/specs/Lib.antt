pub mod Clocks
pub mod Parts
pub mod Waking
pub mod Bounds
pub mod Guards
