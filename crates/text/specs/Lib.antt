pub mod Page
pub mod Text
pub mod Inner
