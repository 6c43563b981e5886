pub mod Below
pub mod Visits
pub mod Tables
pub mod KeptRules
pub mod AppsKept
pub mod FileKept
pub mod Numbered
