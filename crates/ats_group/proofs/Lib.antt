pub mod FoldLemmas
pub mod Kept
pub mod StepLemmas
