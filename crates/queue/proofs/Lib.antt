pub mod Words
pub mod Rows
pub mod Tallies
pub mod Lists
pub mod Scan
pub mod Block
mod Examples
