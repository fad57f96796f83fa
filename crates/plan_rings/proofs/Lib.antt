pub mod PathsIn
pub mod Joined
pub mod Unique
pub mod Labels
