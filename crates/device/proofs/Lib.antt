pub mod Numbers
pub mod Reactions
pub mod Rule
pub mod Unique
