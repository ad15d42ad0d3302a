-- What is known while loops run.
pub mod Columns
pub mod Reaches
pub mod Shifts
