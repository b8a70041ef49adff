pub mod Refusals
pub mod Gaps
pub mod Reachable
pub mod Placing
pub mod Listings
pub mod Lookups
pub mod ShortRows
pub mod Totals
