pub mod Kept
pub mod Judged
pub mod Routes
pub mod Judging
pub mod Laws
pub mod Spares
