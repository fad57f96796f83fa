-- the checks
mod Known
mod Naming
pub mod Passing
-- what is decoded
pub mod Rights
pub mod Decoding
mod Examples
