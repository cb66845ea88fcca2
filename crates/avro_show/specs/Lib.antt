pub mod Taken
pub mod Showing
pub mod Spans
pub mod inside
