pub mod Ports
pub mod Count
pub mod Own
