pub mod PgnList
pub mod Steps
pub mod Slots
