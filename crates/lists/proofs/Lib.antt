pub mod Facts
pub mod Filled
pub mod Loops
pub mod Sums
pub mod Tables
pub mod Tests
pub mod Turns
