pub mod Since
pub mod Laws
