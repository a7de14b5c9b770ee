pub mod Networks
pub mod Ends
pub mod Discards
pub mod Sizes
pub mod Beside
