pub mod Search
pub mod Changes
pub mod Lists
pub mod Slots
pub mod Removing
