pub mod Fours
pub mod Holes
pub mod Lines
pub mod Places
pub mod Tops
