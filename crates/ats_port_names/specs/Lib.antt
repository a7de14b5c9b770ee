pub mod Inside
pub mod PortName
pub mod Laws
