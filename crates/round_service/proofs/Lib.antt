pub mod Numbers
pub mod Loads
pub mod LaterChoices
pub mod TestSets
