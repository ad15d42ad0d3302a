pub mod AutoHeights
pub mod MinMax
