pub mod ResultProofs
pub mod KeyProofs
pub mod PlaceProofs
pub mod SchedulerProofs
pub mod DeclarationProofs
pub mod LeadProofs
pub mod TopologyProofs
