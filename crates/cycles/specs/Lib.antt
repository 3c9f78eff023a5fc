pub mod Star
pub mod Early
pub mod RateBack
pub mod Cable
