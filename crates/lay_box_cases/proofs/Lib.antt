pub mod SmallGrids
pub mod ShortTrees
