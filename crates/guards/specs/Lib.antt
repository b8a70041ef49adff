pub mod Labels
pub mod Moving
pub mod Recording
