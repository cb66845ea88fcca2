-- What only proofs and private contracts need.
pub mod Marks
pub mod Walks
