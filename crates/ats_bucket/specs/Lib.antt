pub mod Conforming
pub mod Integers
pub mod Laws
pub mod Scheduler
pub mod SchedulerInside
