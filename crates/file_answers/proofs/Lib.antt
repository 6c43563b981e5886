pub mod ModeFileLemmas
pub mod PlanFileLemmas
pub mod EndingLemmas
