pub mod ReasonPorts
pub mod OnLegs
pub mod Lines
