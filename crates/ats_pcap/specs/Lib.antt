pub mod Capture
pub mod FaultText
pub mod Identity
pub mod Inside
pub mod Numbers
pub mod Reading
pub mod Seen
