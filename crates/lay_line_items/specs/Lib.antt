pub mod GatheredWidths
pub mod InlineContents
pub mod InlineItems
pub mod InlineSegments
pub mod InlineStarts
pub mod OpenBoxes
pub mod PlainWords
pub mod ClusterLaws
