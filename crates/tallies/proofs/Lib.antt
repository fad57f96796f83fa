mod Histories
mod Kept
pub mod Tallies
