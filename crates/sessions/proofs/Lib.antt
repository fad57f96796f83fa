pub mod Region
pub mod Search
pub mod Lists
pub mod Talk
pub mod Steps
pub mod Received
pub mod Due
pub mod Ports
