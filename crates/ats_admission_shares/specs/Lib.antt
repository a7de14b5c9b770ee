pub mod PortShares
pub mod Frames
