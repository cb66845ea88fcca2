-- What only proofs and private contracts need.
pub mod ClosedParts
pub mod CertificateLines
pub mod CertificateSets
