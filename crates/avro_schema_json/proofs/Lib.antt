pub mod Words
pub mod RowsDeclared
mod RowsDefaults
mod RowsFaults
pub mod DeclarationLaws
pub mod RawSeen
pub mod DefaultsSeen
pub mod CompletedSeen
pub mod DefaultSteps
pub mod NamesSeen
pub mod SymbolsFound
pub mod PartsRead
pub mod TypesRead
pub mod DefinitionsRead
pub mod ObjectsRead
mod RowsLimits
pub mod ReadSeen
mod KnownFound
pub mod MadeSound
pub mod RepeatsSeen
pub mod EachSeen
pub mod NodesSeen
pub mod MarksSeen
pub mod WalkSeen
pub mod RowsSeen
pub mod KindsSeen
pub mod ParentsSeen
pub mod SymbolsSeen
pub mod CoversSeen
pub mod CountsSeen
pub mod LeavesSeen
