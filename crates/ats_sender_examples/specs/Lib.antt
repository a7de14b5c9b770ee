pub mod Senders
pub mod Captured
pub mod Measured
pub mod Copied
pub mod Each
