pub mod Keys
pub mod Networks
pub mod Numbers
pub mod Files
pub mod Inputs
pub mod Limits
pub mod EachFault
