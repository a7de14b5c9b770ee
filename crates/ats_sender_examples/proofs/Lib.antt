mod CapturedProofs
mod MeasuredProofs
mod CopiedProofs
pub mod EachProofs
