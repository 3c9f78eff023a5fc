pub mod Parts
pub mod Short
pub mod Texts
pub mod Unique
