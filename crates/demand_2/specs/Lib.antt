pub mod Matching
pub mod Demand2
