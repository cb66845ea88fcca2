pub mod Known
pub mod CopiedFiles
pub mod CopiedAgain
pub mod NoFault
pub mod NoFaults
