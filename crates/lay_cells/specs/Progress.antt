pub mod Grants
pub mod Progress
pub mod Settled
