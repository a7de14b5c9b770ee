pub mod Alike
pub mod InOrder
pub mod Named
pub mod Only
pub mod Told
