mod LateArrivals
mod OneBurst
mod PortBefore
pub mod FoundLaws
pub mod WorkedBursts
pub mod WorkedListeners
