pub mod Generated
pub mod Script
pub mod SummaryLine
pub mod Validated
