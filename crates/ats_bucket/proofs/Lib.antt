pub mod Ceiling
pub mod Eligibility
pub mod EmptyAfter
