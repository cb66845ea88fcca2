-- What only private contracts and proofs need.
pub mod Tables
