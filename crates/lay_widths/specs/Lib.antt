pub mod Lengths
pub mod BlockWidths
pub mod MinMax
pub mod Laws
pub mod FloatWidths
pub mod ReplacedFits
pub mod ReplacedSizes
