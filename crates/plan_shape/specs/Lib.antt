pub mod Plan
pub mod Literals
