mod LongestLemmas
mod TravelLemmas
pub mod StreamLemmas
mod LeadLemmas
pub mod CopyLemmas
pub mod BurstLemmas
pub mod KeptLemmas
mod SizeLemmas
mod FewPortLemmas
pub mod FoundLemmas
pub mod PlayedLemmas
