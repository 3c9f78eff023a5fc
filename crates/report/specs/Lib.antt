pub mod Report
pub mod Inner
