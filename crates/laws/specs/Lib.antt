pub mod Alike
pub mod Timing
pub mod Telling
pub mod Requested
pub mod Events
