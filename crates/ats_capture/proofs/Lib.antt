pub mod Kept
pub mod ReadBytes
pub mod Traffics
