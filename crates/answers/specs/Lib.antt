pub mod Answer
pub mod Decides
pub mod Ordered
pub mod Refusals
