pub mod PortLaw
