pub mod Looking
pub mod Tables
pub mod Appending
pub mod ThereAndBack
pub mod Adding
pub mod Bounds
