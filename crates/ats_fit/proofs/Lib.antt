pub mod Numbers
pub mod Deficits
pub mod Least
pub mod SizesMore
pub mod GaugeSteps
pub mod Gauges
pub mod OverLaw
