pub mod Asked
pub mod Asking
pub mod Called
pub mod Stopping
pub mod Unique
pub mod Zeros
