pub mod Number
pub mod NumberFault
