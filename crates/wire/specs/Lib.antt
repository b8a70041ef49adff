pub mod Numbers
pub mod HashText
