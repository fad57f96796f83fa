pub mod Identifier
pub mod Picture
pub mod Turning
