pub mod Blamed
pub mod Details
pub mod Places
pub mod Search
pub mod Ways
pub mod inside
