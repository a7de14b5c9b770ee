pub mod Picks
pub mod PortQueues
pub mod Sending
pub mod State
pub mod Waiting
