pub mod Leading
pub mod Listed
pub mod ThreeBytes
pub mod Reported
