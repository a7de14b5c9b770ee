pub mod Later
pub mod EachText
pub mod Hops
pub mod Bursts
pub mod Each
