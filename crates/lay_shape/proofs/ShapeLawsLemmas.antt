pub mod ShapedNeeds
pub mod WayContexts
pub mod FirstNodes
pub mod FirstContexts
