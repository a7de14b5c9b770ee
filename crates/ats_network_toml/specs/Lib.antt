pub mod Document
pub mod Entries
pub mod Views
pub mod Reading
pub mod ArraysView
pub mod PartsView
