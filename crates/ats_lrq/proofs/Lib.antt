pub mod Distances
pub mod FoldLemmas
pub mod Kept
pub mod Narrowing
pub mod StepLemmas
