pub mod RestProofs
pub mod SteadyGroup
pub mod SteadyTalker
pub mod SteadyRuns
