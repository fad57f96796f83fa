pub mod Routing
pub mod Laws
