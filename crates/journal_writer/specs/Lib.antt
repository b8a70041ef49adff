pub mod Writing
pub mod View
pub mod Laws
