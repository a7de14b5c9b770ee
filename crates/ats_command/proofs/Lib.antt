pub use Rattle.ats_lrq_commands.proofs.Narrowed
pub mod Ending
