pub mod Numbers
pub mod OnFile
pub mod Own
