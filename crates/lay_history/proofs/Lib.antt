pub mod EditsLemmas
pub mod Lists
pub mod OneMore
pub mod Versions
pub mod Shown
pub mod ShownVersions
pub mod Turns
pub mod Refusals
