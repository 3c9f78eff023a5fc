pub mod Claims
pub mod Mended
pub mod Rescue
pub mod Told
pub mod Kept
pub mod Inner
