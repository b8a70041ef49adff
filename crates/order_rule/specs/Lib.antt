pub mod Orders
pub mod Premises
