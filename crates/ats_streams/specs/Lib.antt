pub mod Fault
pub mod Path
pub mod Branches
pub mod Stream
pub mod StreamInside
pub mod Flow
pub mod Rules
pub mod Traffic
