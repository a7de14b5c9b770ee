pub mod Capture
pub mod Frame
pub mod Numbers
pub mod Sightings
