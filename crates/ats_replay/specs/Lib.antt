pub mod Departures
pub mod Report
pub mod Summary
pub mod Totals
pub mod Inside
pub mod Laws
