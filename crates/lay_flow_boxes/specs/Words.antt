pub mod Laws
pub mod LinesAlone
pub mod PreferredLines
pub mod InlineEdges
pub mod ShrinkingBoxes
