pub mod TrueTimes
pub mod Promptness
pub mod Promises
pub mod LegalRuns
