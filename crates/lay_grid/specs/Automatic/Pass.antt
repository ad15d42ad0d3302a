-- What is known while loops run.
pub mod Steps
