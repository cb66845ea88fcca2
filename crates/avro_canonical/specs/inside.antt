pub mod Pending
pub mod Laid
pub mod WellMade
