pub mod Stepping
pub mod LegLemmas
pub mod Entering
pub mod Telling
