pub mod public
pub mod DetailsLed
pub mod FaultyData
pub mod FirstFaults
pub mod KnownPairs
pub mod LeadPairs
pub mod LiveData
pub mod LocalFaults
pub mod MarkedNodes
pub mod NothingFound
mod RowsDetails
pub mod SymbolsTaken
pub mod WalkSteps
pub mod WaysFollowed
