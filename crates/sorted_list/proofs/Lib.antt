pub mod Halving
pub mod Ceiling
pub mod Order
pub mod Commands
pub mod Lookup
pub mod Moves
pub mod Fitting
pub mod Examples
