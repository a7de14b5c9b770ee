pub mod GroupProofs
pub mod RegulatorProofs
pub mod PortRuleProofs
pub mod WayProofs
pub mod DeclarationProofs
pub mod EntryProofs
pub mod SchedulerProofs
