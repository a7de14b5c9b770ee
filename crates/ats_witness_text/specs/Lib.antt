pub use Rattle.ats_witness.specs.Found
pub mod Text
