pub mod Walk
pub mod Away
pub mod Reach
pub mod Visits
pub mod Inner
