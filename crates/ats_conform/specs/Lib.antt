pub mod Metering
pub mod Start
pub mod MeterInside
pub mod Releases
pub mod Broken
pub mod Steps
pub mod Laws
