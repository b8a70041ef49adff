pub mod Standing
pub mod Calls
