pub mod Closed
pub mod Compatible
pub mod Evidence
pub mod CertificateText
pub mod SeenPair
pub mod SeenCertificate
pub mod CertificateRead
pub mod inside
