pub mod Retiming
pub mod TrueTime
pub mod Counted
pub mod Crossing
pub mod Ideal
pub mod Examples
