pub mod Draw
pub mod Made
pub mod Making
