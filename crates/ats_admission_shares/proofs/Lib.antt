pub mod Entered
pub mod CountedAt
pub mod SeenUsers
pub mod FrameLemmas
pub mod Left
