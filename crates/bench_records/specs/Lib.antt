pub mod Records
pub mod Turning
pub mod Again
pub mod Literals
