pub mod Refusals
pub mod Reachable
pub mod Listings
pub mod Lookups
pub mod ShortRows
pub mod Totals
