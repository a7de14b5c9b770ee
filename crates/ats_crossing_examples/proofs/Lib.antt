pub mod EndProofs
pub mod DiscardProofs
pub mod SizeProofs
pub mod BesideProofs
