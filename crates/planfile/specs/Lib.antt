pub mod Parts
pub mod Inner
