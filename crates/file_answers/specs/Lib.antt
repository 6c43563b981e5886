pub mod Statuses
pub mod FaultLines
pub mod Endings
pub mod ModeFiles
pub mod PlanFiles
pub mod Due
