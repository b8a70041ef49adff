pub mod BodyNumbers
pub mod Holding
pub mod Labels
pub mod Parts
pub mod Recorded
pub mod Standing
pub mod Turns
