pub mod Places
pub mod Ends
pub mod Before
pub mod InFront
pub mod Steps
pub mod Standing
pub mod Leads
pub mod Ways
