pub mod KeyText
pub mod Faults
pub mod Walks
pub mod Tables
pub mod Reading
