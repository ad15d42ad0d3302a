pub mod Reached
pub mod Touched
pub mod Unreached
pub mod Anchors
pub mod AnonymousTables
pub mod Shrinking
pub mod Bound
