pub mod Setting
pub mod ShortRows
pub mod Starred
pub mod Sweeps
pub mod Tempting
