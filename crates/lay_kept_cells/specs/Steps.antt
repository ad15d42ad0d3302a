pub mod CellSteps
pub mod ReadyCells
pub mod EditedCells
pub mod TouchedContexts
