pub mod Crowd
pub mod InTurn
pub mod Later
pub mod Line
pub mod Once
pub mod Rest
