pub mod ClosedParts
pub mod Decimal
pub mod Halving
pub mod LeastPairs
pub mod Lengths
pub mod LineTexts
pub mod ReadText
mod RowsCertificate
mod RowsClosed
mod RowsCompatible
mod RowsEvidence
pub mod public
