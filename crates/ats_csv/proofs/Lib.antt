pub mod Counted
pub mod Fields
pub mod Next
pub mod Plain
pub mod PlainFields
pub mod ReadsBack
