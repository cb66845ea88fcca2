-- What only proofs and private contracts need.
pub mod HeaderEnds
pub mod HeaderParts
pub mod MetadataParts
