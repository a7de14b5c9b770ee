pub mod Hops
mod Rates
mod Named
mod PlacedRows
mod Tightness
pub mod Numbered
mod Sums
mod Clearance
