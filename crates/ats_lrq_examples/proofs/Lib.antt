pub mod GroupProofs
pub mod LegalByLrq
pub mod MetProofs
pub mod NarrowedProofs
pub mod AloneProofs
