pub mod Sets
pub mod Trailing
pub mod Firsts
pub mod Unique
