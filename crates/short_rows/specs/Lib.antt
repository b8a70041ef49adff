pub mod Mark
pub mod Reading
