pub mod Admission
pub mod Entry
pub mod Requests
pub mod Laws
