pub mod Shape
pub mod Reading
pub mod Draft
pub mod Verdicts
pub mod Text
pub mod FaultText
pub mod FaultLaw
