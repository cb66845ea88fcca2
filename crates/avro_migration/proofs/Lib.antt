pub mod Unresolved
pub mod Migrated
pub mod Sound
pub mod ReadData
