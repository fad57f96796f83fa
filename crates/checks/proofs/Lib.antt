pub mod Tests
pub mod Ports
pub mod FirstNumber
pub mod Refusals
