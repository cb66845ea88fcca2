pub mod CertifiedTables
pub mod DeadIds
pub mod Evidence
pub mod Exclusive
pub mod PairNumbers
pub mod ReachedPairs
pub mod RootJudged
pub mod SortedKeys
