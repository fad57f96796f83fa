pub mod Words
pub mod Exported
pub mod CDemands
pub mod Clauses
pub mod Plans
