pub mod Small
pub mod Data
pub mod EmptyData
pub mod Known
pub mod OneFile
