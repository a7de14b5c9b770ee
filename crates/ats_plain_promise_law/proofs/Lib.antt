pub mod TrueTimeProofs
pub mod PromptnessProofs
pub mod PromiseProofs
pub mod LegalRunProofs
