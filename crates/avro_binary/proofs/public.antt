pub mod Blocks
pub mod Distinct
pub mod EmptyData
pub mod Shortest
pub mod Zipped
