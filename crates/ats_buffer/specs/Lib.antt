pub mod Occupancy
pub mod Buffer
pub mod RowTable
pub mod Sums
pub mod Moments
pub mod Levels
