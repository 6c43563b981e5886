pub mod Trace
pub mod Counting
pub mod Scripts
pub mod Replaying
pub mod Running
