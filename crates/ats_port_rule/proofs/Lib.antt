pub mod InOrder
pub mod OneMore
pub mod Pairs
pub mod Permuted
