pub mod LegPlaces
pub mod Listing
pub mod Places
