pub mod StyleSteps
pub mod ValuesFit
pub mod StyleBounds
mod Undeclared
