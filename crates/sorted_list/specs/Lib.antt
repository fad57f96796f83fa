pub mod SortedList
pub mod Steps
