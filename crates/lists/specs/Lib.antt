pub mod Loop
pub mod Table
