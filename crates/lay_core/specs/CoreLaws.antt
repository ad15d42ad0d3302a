pub mod GivenInputs
pub mod InputChanges
pub mod Turns
pub mod ReachedCores
pub mod Laws
