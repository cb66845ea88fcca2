pub mod Placed
pub mod Position
