-- What only proofs and private contracts need.
pub mod DeviceLaws
