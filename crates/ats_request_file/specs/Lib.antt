pub mod Words
pub mod Reading
pub mod FaultText
pub mod FaultLaw
