pub mod Fold
pub mod GroupsState
pub mod Judge
pub mod Laws
pub mod Narrow
pub mod SpacedMember
pub mod Spacing
