pub mod InTime
pub mod Next
pub mod Opened
