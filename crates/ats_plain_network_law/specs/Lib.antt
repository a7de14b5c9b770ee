pub mod Groups
pub mod Regulators
pub mod PortRule
pub mod Ways
pub mod Declarations
pub mod Entries
pub mod Schedulers
