pub use Rattle.ats_soundness_law.specs.Runs
pub use Rattle.ats_soundness_law.specs.Sound
pub mod Refusal
pub mod Laws
pub mod Ports
pub mod Rows
pub mod First
pub mod InTime
