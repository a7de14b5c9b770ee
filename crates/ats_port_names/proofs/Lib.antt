pub mod ByBytes
pub mod Ends
pub mod Numbering
pub mod ReadsBack
