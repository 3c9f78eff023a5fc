pub mod Kinds
pub mod Permissions
pub mod Reaction
