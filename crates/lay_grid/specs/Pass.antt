-- What is known while loops run.
pub mod Known
pub mod Sharing
pub mod Baselines
pub mod Needs
pub mod Totals
