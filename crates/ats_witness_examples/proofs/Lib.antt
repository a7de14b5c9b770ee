pub mod Greatest
pub mod Bursting
pub mod Summed
pub mod GapAnswered
pub mod BothAnswered
