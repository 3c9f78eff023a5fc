pub mod State
pub mod Network
pub mod Sound
pub mod Queue
pub mod Mark
pub mod Start
pub mod Inner
