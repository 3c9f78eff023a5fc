pub mod Below
pub mod Parts
pub mod Puts
pub mod Unique
pub mod Written
