pub mod Moves
pub mod OneCall
pub mod Named
pub mod Reasons
pub mod AtPort
pub mod Unchanged
pub mod Demand3
