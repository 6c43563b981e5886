pub mod EndingLemmas
pub mod PlanAnswers
pub mod CheckAnswers
pub mod TableAnswers
pub mod ReplayAnswers
pub mod HeadlineLemmas
pub mod DrillAnswers
pub mod OneAnswers
