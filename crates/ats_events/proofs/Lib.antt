pub mod Histories
pub mod Popped
pub mod Numbers
