pub mod Sends
pub mod Loop
mod Ways
