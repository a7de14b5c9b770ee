pub mod Frames
pub mod Over
pub mod Places
