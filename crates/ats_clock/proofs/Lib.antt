pub mod Deviating
pub mod Falling
pub mod Monotone
