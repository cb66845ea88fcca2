-- What only proofs and private contracts need.
pub mod BlocksShown
pub mod DataShown
pub mod OpenedSeen
pub mod OutputTold
