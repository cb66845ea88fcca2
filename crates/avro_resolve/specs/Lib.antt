pub mod Seen
pub mod Reading
pub mod Ends
pub mod ErrorCode
pub mod Tables
pub mod Copied
pub mod inside
