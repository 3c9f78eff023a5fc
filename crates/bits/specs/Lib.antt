pub mod Set
pub mod First
