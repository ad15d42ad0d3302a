pub mod Runs
pub mod Slots
pub mod EdgeBounds
pub mod UsedBorders
pub mod CellLists
pub mod ColumnMarks
pub mod GroupCounts
pub mod SpanColumns
