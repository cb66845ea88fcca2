-- What only proofs and private contracts need.
pub mod BlockCopied
pub mod BlockSeen
pub mod BlocksChecked
pub mod DataPacked
pub mod HeaderCopied
