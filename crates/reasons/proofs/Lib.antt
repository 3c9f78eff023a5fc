pub mod Parts
pub mod Words
pub mod Told
pub mod Texts
pub mod Unique
pub mod Listed
