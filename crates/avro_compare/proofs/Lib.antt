pub mod public
pub mod EnoughSteps
pub mod Pairing
pub mod FaultsLed
pub mod FieldsNoted
pub mod FirstLacking
pub mod FirstNumber
pub mod FirstOfType
pub mod HeldAliases
pub mod Named
pub mod NumberedTexts
pub mod PlainBranches
pub mod NoFields
pub mod NumberedNames
pub mod PlacesFound
pub mod Shared
mod RowsMatch
mod RowsSource
