pub mod CursorSteps
pub mod KeySets
pub mod public
