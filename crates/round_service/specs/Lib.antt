pub mod Serving
pub mod TestMode
