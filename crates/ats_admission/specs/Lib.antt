pub mod Judged
pub mod Sessions
