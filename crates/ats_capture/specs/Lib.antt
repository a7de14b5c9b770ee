pub mod Counts
pub mod FaultText
pub mod Inside
pub mod Reading
pub mod Seen
pub mod Traffic
