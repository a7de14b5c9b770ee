pub mod FaultText
pub mod Laws
pub mod Reading
pub mod Releases
pub mod Text
