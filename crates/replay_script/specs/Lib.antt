pub mod Examples
pub mod Fitting
pub mod Form
pub mod Meaning
pub mod Script
