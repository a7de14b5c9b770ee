pub mod UserLemmas
pub mod Slots
pub mod Places
pub mod ListLemmas
pub mod StateLemmas
