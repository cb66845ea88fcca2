mod RowsDisplays
pub mod Tables
pub mod Texts
pub mod Displays
pub mod Plains
pub mod public
