pub mod Calling
pub mod Running
