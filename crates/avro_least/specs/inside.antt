-- What only proofs and private contracts need.
pub mod Built
pub mod Falling
pub mod Leading
pub mod Leaf
pub mod Parts
pub mod Settled
