pub mod Accepting
pub mod Apart
pub mod Timers
pub mod Telling
pub mod Staying
pub mod Requested
pub mod Events
pub mod Emitted
