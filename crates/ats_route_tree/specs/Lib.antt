pub mod Legs
pub mod LegsView
pub mod Steps
pub mod Laws
