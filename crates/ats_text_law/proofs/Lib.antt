pub mod Words
pub mod Hops
pub mod Runs
pub mod Reports
pub mod Accepted
pub mod Answers
pub mod Parts
pub mod Explained
