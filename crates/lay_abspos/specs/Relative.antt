pub mod FormerParents
pub mod Laws
pub mod MoveBounds
pub mod Moves
pub mod OpenParts
pub mod RelativeOffsets
pub mod SubtreeEnds
