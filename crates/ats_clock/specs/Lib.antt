pub mod Clock
pub mod Rates
pub mod Laws
