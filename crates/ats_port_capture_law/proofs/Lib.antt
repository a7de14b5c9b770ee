pub mod Answered
pub mod Meant
pub mod Members
pub mod One
pub mod Order
pub mod Read
pub mod Whole
pub mod WorkedProofs
