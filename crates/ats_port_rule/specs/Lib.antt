pub mod Laws
pub mod Order
pub mod PortRule
pub mod Transmission
