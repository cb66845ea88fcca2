pub mod Choices
pub mod DatumViews
pub mod FitsKind
pub mod FitsParts
pub mod GoodNodes
pub mod NodeFaults
pub mod Parts
pub mod RowsSchemas
