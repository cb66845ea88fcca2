pub mod CutTexts
pub mod HistoryStatuses
mod Pieces
