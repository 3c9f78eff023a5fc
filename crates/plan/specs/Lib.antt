pub mod Block
pub mod Fields
pub mod Header
pub mod Refusals
pub mod Reading
pub mod Writing
pub mod Inner
