pub mod Cited
pub mod RelativeLemmas
pub mod Filled
pub mod OneAbsoluteBox
pub mod OnePlace
pub mod SomeAbsoluteBox
pub mod SomeAxis
pub mod Unique
