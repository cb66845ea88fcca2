pub mod DisplayTree
pub mod Pieces
pub mod Order
pub mod Table
pub mod Displayed
pub mod Plain
pub mod inside
