pub mod Least
pub mod Measured
pub mod Over
pub mod Deficit
pub mod Steps
pub mod Laws
