pub mod Claims
pub mod Events
pub mod Calls
