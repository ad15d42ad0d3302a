pub mod EditedLists
pub mod TouchedLists
