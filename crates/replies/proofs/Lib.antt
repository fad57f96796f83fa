mod Laying
mod Writing
mod Examples
pub mod Parameters
pub mod RoundTrip
