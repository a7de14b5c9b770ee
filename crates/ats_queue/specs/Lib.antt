pub mod Contents
pub mod Inside
pub mod Order
pub mod Weak
