pub mod Accepted
pub mod Full
pub mod GroupsLaws
pub mod Laws
pub mod Regulator
pub mod Renaming
pub mod Shaping
pub mod Windows
