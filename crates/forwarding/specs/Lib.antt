pub mod Forwarding
pub mod Steps
