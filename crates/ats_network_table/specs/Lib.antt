pub mod Words
pub mod Kinds
pub mod Walk
pub mod SectionView
pub mod FaultText
pub mod Slots
