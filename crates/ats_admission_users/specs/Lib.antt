pub mod Users
pub mod Lists
