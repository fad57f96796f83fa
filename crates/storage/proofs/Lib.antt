pub mod Parts
pub mod Blocks
pub mod Bytes
pub mod Walk
pub mod Copy
pub mod Chunks
