pub mod Line
pub mod Rate
pub mod Copying
pub mod Fork
pub mod TimeRate
pub mod FadeRate
pub mod Guard
