pub mod ClockLemmas
pub mod PartLemmas
pub mod OverlapLemmas
pub mod GuardLemmas
pub mod WakingLemmas
