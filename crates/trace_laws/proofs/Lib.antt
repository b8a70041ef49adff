pub mod ReadingBack
pub mod Breaking
pub mod LongEnough
pub mod Examples
pub mod WritingAgain
pub mod Totals
