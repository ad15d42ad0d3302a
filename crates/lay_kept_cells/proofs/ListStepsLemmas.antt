pub mod Roots
pub mod Viewports
pub mod KeptCells
pub mod TouchedLists
