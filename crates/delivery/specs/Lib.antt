pub mod Row
pub mod Port
pub mod Calls
pub mod Unit
pub mod Product
