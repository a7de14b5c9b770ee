pub mod Last
pub mod Burst
pub mod Delay
pub mod Found
pub mod Made
pub mod Longest
pub mod Played
