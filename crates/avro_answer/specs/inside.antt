-- What only proofs and private contracts need.
pub mod AtFront
pub mod DatumParts
pub mod FaultsAdded
pub mod FrontKept
pub mod JsonText
pub mod NamedLine
pub mod NamedTree
pub mod Read
pub mod VerdictTexts
