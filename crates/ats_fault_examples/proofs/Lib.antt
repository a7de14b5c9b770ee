pub mod KeysNamed
pub mod NetworksWritten
pub mod NumbersWithin
pub mod FilesWritten
pub mod InputsWritten
pub mod LimitsAllowed
pub mod EachWritten
