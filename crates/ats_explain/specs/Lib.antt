pub mod Parts
pub mod Senders
pub mod Margins
pub mod Numbers
pub mod Loads
pub mod Totals
pub mod Table
pub mod Laws
