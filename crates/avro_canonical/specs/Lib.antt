pub mod Form
pub mod Canonical
pub mod CanonicalTree
pub mod Fingerprint
pub mod inside
