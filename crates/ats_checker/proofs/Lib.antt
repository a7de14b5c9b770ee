pub mod Refused
pub mod Inside
pub mod PlaceOrder
pub mod Judged
pub mod Breaches
pub mod FirstFound
pub mod FirstRefusal
pub mod InTime
