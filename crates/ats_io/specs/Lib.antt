pub mod Outside
pub mod Reads
pub mod Text
pub mod Memory
pub mod Whole
