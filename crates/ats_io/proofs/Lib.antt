pub mod Outside
pub mod Fronts
pub mod Turns
mod Held
mod Lines
mod Pairs
mod Walks
mod Feeds
