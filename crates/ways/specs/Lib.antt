pub mod Calls
pub mod Crossings
pub mod Chain
pub mod Cut
pub mod Inner
