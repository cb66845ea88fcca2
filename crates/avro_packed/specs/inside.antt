pub mod Outputs
pub mod Groups
