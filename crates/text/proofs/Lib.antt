pub mod Decimal
pub mod Pages
pub mod Parts
pub mod Reading
pub mod Unique
pub mod Within
