pub mod Parts
pub mod Firsts
pub mod Helds
pub mod Nexts
pub mod Onward
pub mod Files
pub mod Plans
