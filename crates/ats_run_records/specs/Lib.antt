pub mod Brief
pub mod Inside
pub mod LastVerdict
pub mod Opening
pub mod Progress
pub mod Track
pub mod TrackFields
