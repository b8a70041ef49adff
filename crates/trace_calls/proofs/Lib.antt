pub mod Lending
pub mod Making
pub mod Places
pub mod Readers
