pub mod TreeProofs
pub mod CopyProofs
pub mod BreakProofs
pub mod BoundProofs
pub mod ServedProofs
