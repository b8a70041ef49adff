pub mod Calls
pub mod Computed
pub mod Filling
pub mod Performing
pub mod Turns
