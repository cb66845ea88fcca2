pub mod Asked
pub mod Buffer
pub mod Told
