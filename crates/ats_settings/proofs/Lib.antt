pub mod BeforeLemmas
pub mod Behind
pub mod Places
pub mod Told
