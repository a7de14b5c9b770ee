pub mod Ports
pub mod OnLegs
pub mod Lines
