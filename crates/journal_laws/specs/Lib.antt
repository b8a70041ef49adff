pub mod Sizes
pub mod CutRule
pub mod Keys
pub mod Places
pub mod Refolding
pub mod Rewriting
