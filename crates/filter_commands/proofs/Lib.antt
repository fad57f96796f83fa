mod Sorting
mod Commands
mod Names
pub mod Laws
