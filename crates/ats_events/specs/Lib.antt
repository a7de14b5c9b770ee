pub mod Contents
pub mod History
pub mod Inside
pub mod Laws
pub mod Order
pub mod Ranked
pub mod Steps
pub mod Weak
