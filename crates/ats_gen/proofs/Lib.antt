pub mod Streams
mod Schedulers
mod Keeps
mod MadeParts
pub mod Sorted
mod Faults
mod Steps
