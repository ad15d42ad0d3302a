pub mod CountedGrants
pub mod ChangedRows
pub mod CleanedCells
