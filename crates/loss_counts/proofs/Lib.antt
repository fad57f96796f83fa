mod Places
mod Turns
mod OneCall
pub mod LossCounts
