pub mod Networks
pub mod Trees
pub mod Runs
pub mod Copies
pub mod Breaks
pub mod Bounds
pub mod Served
