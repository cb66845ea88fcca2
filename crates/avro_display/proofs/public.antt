pub mod Putting
pub mod Ordering
pub mod Opened
pub mod Fronts
