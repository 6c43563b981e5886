pub mod Canvas
pub mod Elements
pub mod Drawing
pub mod Within
