pub mod Take
pub mod Follow
pub mod Port
pub mod Unit
pub mod Calls
pub mod Came
pub mod Once
pub mod Product
mod Examples
