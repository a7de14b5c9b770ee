pub mod LaterProofs
pub mod EachTextProofs
pub mod HopProofs
pub mod BurstProofs
pub mod EachProofs
