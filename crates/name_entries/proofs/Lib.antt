mod Bits
pub mod Matching
mod Holding
