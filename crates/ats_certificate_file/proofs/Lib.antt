pub mod Numbers
pub mod PlainRows
pub mod ReadsBack
pub mod Texts
