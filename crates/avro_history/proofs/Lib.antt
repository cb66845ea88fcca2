pub mod ConfirmedSoFar
pub mod Fronts
pub mod ReadSoFar
pub mod Refusals
mod RowsHistory
pub mod Written
