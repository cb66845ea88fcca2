pub mod Faults
pub mod NumberOrFault
pub mod Spelling
