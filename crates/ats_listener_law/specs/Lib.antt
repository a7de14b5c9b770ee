pub mod Routes
pub mod Listeners
pub mod Ways
pub mod Once
pub mod OneListener
