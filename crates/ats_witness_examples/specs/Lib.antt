pub mod Networks
pub mod Delays
pub mod Bursts
pub mod Sums
pub mod Gap
pub mod Both
