pub mod Picture
pub mod Due
