pub mod PassesAtOnce
pub mod PassesRun
