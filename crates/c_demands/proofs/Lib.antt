pub mod Calls
pub mod Numbers
pub mod Lists
pub mod Unchanged
pub mod CDemands
pub mod Plans
pub mod Clauses
