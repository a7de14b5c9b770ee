pub mod TrueTime
pub mod Runs
pub mod Sound
pub mod Rules
pub mod Laws
pub mod OneListener
