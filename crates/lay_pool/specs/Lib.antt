pub mod Finds
pub mod Hands
