pub mod Judging
pub mod Admitting
pub mod Explaining
pub mod Conforms
