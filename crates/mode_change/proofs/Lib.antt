pub mod GoingOn
pub mod RoundNumbers
