mod FlatLists
mod BaseLists
mod ChainsBehind
mod Bounded
mod Loadings
pub mod Counts
pub mod Tallies
mod TableLemmas
mod TestSets
