pub mod Reading
pub mod Writing
pub mod Standing
pub mod Traces
