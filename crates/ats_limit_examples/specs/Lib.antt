pub mod Chains
pub mod Legs
