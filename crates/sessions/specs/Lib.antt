pub mod Sessions
pub mod Heard
pub mod Steps
pub mod Received
pub mod Due
pub mod Region
