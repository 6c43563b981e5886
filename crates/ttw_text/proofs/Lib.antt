pub mod FrontNumbers
pub mod LineLemmas
pub mod NumberLemmas
pub mod PlaceLemmas
pub mod Spellings
pub mod WordLemmas
