-- What only proofs and private contracts need.
pub mod Grammar
pub mod PlainFound
