pub mod Group
pub mod GroupsState
pub mod Judge
pub mod Laws
pub mod MemberScheduler
