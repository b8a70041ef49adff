pub mod Merging
pub mod Totals
pub mod Shards
pub mod Splitting
pub mod Readings
pub mod Premises
