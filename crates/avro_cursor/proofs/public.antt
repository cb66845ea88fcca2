pub mod Behind
pub mod ElementLaws
pub mod Fronts
pub mod HeadLaws
pub mod KeySteps
pub mod Ranges
