pub mod Lines
pub mod Folded
pub mod LineFacts
pub mod LineCases
pub mod FaultCauses
pub mod FaultFold
