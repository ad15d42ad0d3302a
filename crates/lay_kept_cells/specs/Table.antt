pub mod CellPlaces
pub mod CellTables
pub mod KeptCells
pub mod LinkedRoots
pub mod RootColumns
pub mod TableCells
