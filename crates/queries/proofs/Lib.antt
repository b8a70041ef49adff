pub mod Gathering
pub mod LookingUp
pub mod Placing
pub mod Reporting
