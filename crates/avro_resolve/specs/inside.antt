-- What only proofs and private contracts need.
pub mod Guided
pub mod Later
