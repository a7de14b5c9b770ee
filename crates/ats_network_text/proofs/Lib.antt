pub mod Hops
pub mod Legs
pub mod PortsOf
