pub mod Claimants
pub mod Mornings
pub mod AnyOrder
pub mod Needed
