pub mod Named
pub mod PlainRecords
pub mod ReadsBack
pub mod Releases
pub mod Texts
