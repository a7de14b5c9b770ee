pub mod JourneyProofs
pub mod TellingProofs
pub mod ReleaseProofs
pub mod ClockProofs
pub mod TalkerProofs
pub mod MeasureProofs
pub mod WitnessProofs
pub mod HeaderProofs
