pub mod Files
pub mod Own
pub mod Unique
pub mod Handed
pub mod Told
