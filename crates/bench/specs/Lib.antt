pub mod Round
pub mod RoundCall
pub mod Settling
pub mod Trials
pub mod Inner
