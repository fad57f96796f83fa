-- what a claim does, place by place
pub mod Places
pub mod Claims
pub mod OneAddress
mod Examples
-- the loop and the contracts
pub mod Dropping
pub mod Calls
