pub mod Rows
pub mod Adding
