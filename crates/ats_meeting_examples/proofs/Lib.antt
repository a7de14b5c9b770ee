pub mod FlowProofs
pub mod LinkProofs
pub mod DrawProofs
pub mod BurstProofs
pub mod MadeProofs
