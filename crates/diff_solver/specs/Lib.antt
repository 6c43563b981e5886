pub mod Bounds
pub mod Causes
pub mod Raising
pub mod Solving
pub mod Working
