pub mod Journeys
pub mod Tellings
pub mod Releases
pub mod Clocks
pub mod Talkers
pub mod Measures
pub mod Witnesses
pub mod Header
