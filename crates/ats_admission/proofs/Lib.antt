pub mod After
pub mod Classed
pub mod Entered
pub mod Judgements
pub mod Lowest
pub mod Pending
pub mod Named
