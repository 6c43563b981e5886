pub mod CutTexts
pub mod Bits
pub mod FittingLines
pub mod Limits
pub mod ReadSoFar
pub mod LongTexts
