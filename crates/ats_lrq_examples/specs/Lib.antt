pub mod Runs
pub mod Met
pub mod Narrowed
pub mod Groups
pub mod Alone
