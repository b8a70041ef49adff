pub mod Steps
pub mod Folds
pub mod KeyOrder
pub mod Cut
pub mod Refusals
pub mod Settling
pub mod Refold
pub mod Rewrite
