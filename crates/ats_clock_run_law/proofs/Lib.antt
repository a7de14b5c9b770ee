pub mod Records
pub mod Ways
pub mod ToldTimes
pub mod Ports
pub mod TrueTime
pub mod Ideal
