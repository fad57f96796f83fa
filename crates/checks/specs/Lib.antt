pub mod Checks
pub mod Ports
pub mod Refusals
