pub mod Asked
pub mod Decoding
pub mod Functions
pub mod Judging
pub mod Commands
