pub mod Places
pub mod Sums
pub mod LeastRows
pub mod Reasons
pub mod Parts
pub mod Buffers
pub mod Requests
