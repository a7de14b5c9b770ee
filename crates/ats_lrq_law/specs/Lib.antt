pub mod Laws
pub mod Narrowed
