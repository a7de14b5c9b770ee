pub mod ChainProofs
pub mod LegProofs
