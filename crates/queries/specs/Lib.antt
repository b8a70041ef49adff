pub mod Queries
pub mod Promises
