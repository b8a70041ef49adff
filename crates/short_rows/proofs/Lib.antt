pub mod Bits
pub mod Gathering
pub mod Marking
pub mod Marks
pub mod Reading
