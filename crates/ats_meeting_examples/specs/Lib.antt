pub mod Networks
pub mod Flows
pub mod Links
pub mod Draws
pub mod Bursts
pub mod Made
