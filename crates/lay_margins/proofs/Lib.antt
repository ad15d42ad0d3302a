pub mod Margins
pub mod Places
pub mod RunSteps
pub mod OneList
