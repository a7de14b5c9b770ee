pub mod Shows
pub mod Explains
pub mod Checks
pub mod Admits
pub mod Replays
pub mod Reports
pub mod Fits
pub mod Witnesses
