pub mod Numbered
pub mod Popping
pub mod Walks
pub mod Forces
pub mod Tallies
pub mod Comings
pub mod Searches
pub mod ProblemBounds
