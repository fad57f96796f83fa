pub mod Ports
pub mod Count
pub mod Model
pub mod Own
pub mod PowerOn
