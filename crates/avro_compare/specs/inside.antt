-- What only proofs and private contracts need.
pub mod NameTables
pub mod NamedTypes
pub mod TypeNames
pub mod Listed
pub mod Nearer
pub mod Noting
pub mod PartNumbers
pub mod Led
