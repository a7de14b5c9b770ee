pub mod Steady
pub mod Resting
