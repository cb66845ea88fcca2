pub mod HistoryText
pub mod SeenHistory
pub mod HistoryRead
pub mod ConfirmedHistory
pub mod inside
