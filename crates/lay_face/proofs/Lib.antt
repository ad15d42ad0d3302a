pub mod Tables
pub mod Measures
pub mod ClusterSums
pub mod PlainTexts
pub mod WidthBounds
pub mod SameTables
