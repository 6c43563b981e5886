pub mod Fields
pub mod Image
pub mod Left
pub mod Reading
pub mod OwnParts
pub mod Parts
pub mod PartLimits
pub mod TestPlans
