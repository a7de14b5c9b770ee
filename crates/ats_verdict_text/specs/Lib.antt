pub use Rattle.ats_checker.specs.Sound
pub use Rattle.ats_checker.specs.Runs
pub use Rattle.ats_checker.specs.InTime
pub use Rattle.ats_checker.specs.Refusal
pub use Rattle.ats_port_names.specs.PortName
pub use Rattle.ats_streams.specs.Stream
pub mod Text
pub mod Laws
