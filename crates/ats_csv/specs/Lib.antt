pub mod Inside
pub mod Laws
pub mod Plain
pub mod Reading
