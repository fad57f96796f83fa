pub mod Made
pub mod Cited
