pub mod LeastWalks
pub mod Allowed
pub mod FaultFold
