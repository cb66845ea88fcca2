pub mod PutFront
pub mod inside
