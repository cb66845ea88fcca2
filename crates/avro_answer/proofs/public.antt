-- Lemmas that the crates above cite.
pub mod FaultsAnswers
pub mod PairLimits
pub mod RefusedTexts
pub mod Skipped
