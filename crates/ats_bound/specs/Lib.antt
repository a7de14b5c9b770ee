pub mod Least
pub mod Reason
pub mod First
pub mod Laws
pub mod Row
pub mod Users
pub mod Begun
