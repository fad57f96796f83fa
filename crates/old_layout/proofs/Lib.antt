mod Commands
mod Calls
mod Shrunk
pub mod Same
