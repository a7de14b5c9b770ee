pub mod BranchLemmas
pub mod RouteLemmas
pub mod OneListener
pub mod WalkedRoutes
pub mod ClassLemmas
pub mod Places
