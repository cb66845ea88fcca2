pub mod Moved
pub mod Steps
pub mod CopiedFile
pub mod TaskSeen
pub mod CopierSeen
pub mod Copying
pub mod Checking
pub mod inside
