pub mod Told
pub mod Numbers
pub mod Demand1
pub mod Literals
pub mod Parameters
