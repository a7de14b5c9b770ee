mod TextProofs
mod RunProofs
mod OutsideProofs
mod CapturedProofs
mod ShortRouteProofs
mod RoutesMeant
mod FaultOrderProofs
mod RequestProofs
mod EachEntryProofs
mod RefusedTold
mod ShapeProofs
mod MeteredProofs
pub mod OutsideMeant
pub mod FilesMeant
