mod Rows
mod Fewest
mod Steps
pub mod public
