pub mod Words
pub mod Fronts
pub mod Punctuated
pub mod Standing
pub mod Steps
pub mod Turns
pub mod Whole
