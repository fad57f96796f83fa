pub mod Marks
pub mod Bits
pub mod Told
pub mod Ask
pub mod Chain
pub mod Turns
pub mod Paths
pub mod Answer
