pub mod PortSums
pub mod Certificate
pub mod Least
pub mod Used
pub mod Form
pub mod OneListener
