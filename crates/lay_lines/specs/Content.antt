pub mod Budgets
pub mod Extents
pub mod LineContents
pub mod PartLists
pub mod Pens
