pub mod Name
pub mod NameFault
pub mod inside
pub mod Shared
