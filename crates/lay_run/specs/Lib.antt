pub mod Gathered
pub mod Scripts
pub mod Runs
