-- What only proofs and private contracts need.
pub mod Evidence
pub mod Judged
