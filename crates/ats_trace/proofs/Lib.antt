pub mod ExactLinks
pub mod FewPorts
pub mod Legs
pub mod OneListener
pub mod OneVerdict
pub mod PartProofs
pub mod RowLemmas
