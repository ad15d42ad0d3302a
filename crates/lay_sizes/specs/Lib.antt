pub mod UsedLengths
pub mod ReplacedBoxes
pub mod BoxSizes
pub mod SizeBounds
pub mod SizeColumns
pub mod OwnBoxes
pub mod Laws
