pub mod Records
pub mod Numbers
pub mod Turns
pub mod Again
pub mod Literals
