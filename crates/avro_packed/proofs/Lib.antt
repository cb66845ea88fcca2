pub mod Joined
pub mod Gathering
pub mod IntoBranches
pub mod Grouping
pub mod Staying
