pub mod Steps
pub mod ListSteps
pub mod Table
pub mod Settled
