pub mod Keeps
pub mod Classes
pub mod Requests
pub mod Entry
