pub mod Classes
pub mod Inside
pub mod Steps
