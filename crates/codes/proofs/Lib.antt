pub mod BothWays
pub mod Numbers
pub mod Unique
