pub mod Stations
pub mod Laws
pub mod Printed
pub mod Told
