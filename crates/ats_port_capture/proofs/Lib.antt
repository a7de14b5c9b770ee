pub mod Along
pub mod Frames
pub mod Ordered
pub mod Records
pub mod Runs
pub mod Ways
