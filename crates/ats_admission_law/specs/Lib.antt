pub use Rattle.ats_bound.specs.Reason
pub use Rattle.ats_bound.specs.Least
pub mod Less
pub mod Lowest
pub mod Near
pub mod Laws
