pub mod Pending
pub mod Fold
pub mod Restore
pub mod View
pub mod Places
pub mod Steps
