pub mod Deciding
pub mod Gathering
pub mod RowNumbers
pub mod Selecting
