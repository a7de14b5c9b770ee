pub mod Texts
pub mod RunTexts
