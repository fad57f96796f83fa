pub mod AddressPairs
pub mod Calls
pub mod ThereAndBack
