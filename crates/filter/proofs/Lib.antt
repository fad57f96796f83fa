pub mod Meaning
pub mod Asking
pub mod Reasons
