pub mod RowSteps
pub mod RowPorts
pub mod Steps
pub mod Requested
