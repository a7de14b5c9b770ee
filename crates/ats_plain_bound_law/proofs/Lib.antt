pub mod PlaceProofs
pub mod SumProofs
pub mod LeastRowProofs
pub mod ReasonProofs
pub mod PartProofs
pub mod BufferProofs
pub mod RequestProofs
