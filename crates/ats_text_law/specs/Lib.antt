pub mod Short
pub mod Laws
pub mod Answers
pub mod Explained
