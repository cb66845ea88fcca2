mod Dots
mod Rows
mod Scanning
mod Spellings
pub mod public
