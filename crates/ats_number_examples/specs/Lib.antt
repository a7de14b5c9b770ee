pub mod Networks
pub mod Counted
pub mod Told
pub mod Premises
pub mod Answered
pub mod Parts
